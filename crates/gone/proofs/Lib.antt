pub mod Marks
pub mod Grows
pub mod Parts
