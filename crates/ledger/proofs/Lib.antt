pub mod Words
pub mod Logs
pub mod Without
pub mod Added
pub mod Deleted
pub mod Sifting
pub mod Linking
pub mod Rooms
