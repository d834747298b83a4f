pub mod Renamed
pub mod Labels
pub mod Parts
pub mod Calls
