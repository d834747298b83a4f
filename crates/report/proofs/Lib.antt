pub mod ByHand
pub mod Prefix
pub mod Reports
pub mod Texts
