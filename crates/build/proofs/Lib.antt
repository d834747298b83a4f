pub mod Counts
pub mod Steps
pub mod Lists
pub mod Finding
pub mod ByKind
pub mod Loop
pub mod Whole
