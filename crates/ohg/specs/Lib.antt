pub mod Caller
pub mod Reasons
pub mod Built
pub mod ToldBuilt
