pub mod Adding
pub mod Reporting
pub mod Along
pub mod Called
pub mod Reports
pub mod RangeCaller
