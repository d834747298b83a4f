pub mod Behind
pub mod Calls
