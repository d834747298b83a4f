pub mod Cells
pub mod Chains
pub mod Spiders
