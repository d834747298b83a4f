pub mod Glance
pub mod Lines
