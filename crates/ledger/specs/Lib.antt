pub mod Tables
pub mod Ledger
pub mod Left
