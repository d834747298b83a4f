pub mod Going
pub mod Form
pub mod Hints
pub mod Sweeping
