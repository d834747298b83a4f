pub mod Ranges
pub mod Caller
pub mod Engines
pub mod Explicit
pub mod Rewritten
pub mod Reasons
pub mod Built
pub mod ToldBuilt
