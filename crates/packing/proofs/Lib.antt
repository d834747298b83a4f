pub mod Packing
pub mod Unpacked
pub mod Caller
pub mod Ranges
