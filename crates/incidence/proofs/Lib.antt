pub mod Ends
pub mod Counting
pub mod Parts
pub mod Laying
pub mod Filling
pub mod Facts
pub mod Whole
