pub mod Held
pub mod Drawn
pub mod Two
