pub mod Texts
pub mod Prefix
