pub mod Checking
pub mod Walking
pub mod Putting
pub mod Pairless
pub mod Billed
