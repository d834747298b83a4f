pub mod Choosing
pub mod Beginning
pub mod Staging
pub mod Answering
