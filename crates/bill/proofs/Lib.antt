pub mod Prefix
pub mod Texts
