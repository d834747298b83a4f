-- How far ids reach, and the first bad one of a row.
pub mod Reach
mod FirstBad
