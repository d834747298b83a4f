pub mod Endings
pub mod LaidDown
pub mod Singly
pub mod RefusedBy
pub mod Answered
pub mod ByHand
