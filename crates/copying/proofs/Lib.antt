pub mod Mapping
pub mod Merging
pub mod Ready
