-- The ways out of reading lists and body.
pub mod Whole
