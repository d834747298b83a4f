pub mod Steps
pub mod Calls
pub mod Singly
pub mod RefusedBy
pub mod Faults
pub mod ByHand
