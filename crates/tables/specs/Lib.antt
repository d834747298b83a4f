-- Where the engine's tables lie.
pub mod Tables
