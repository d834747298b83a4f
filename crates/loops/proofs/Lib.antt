pub mod Next
pub mod Steps
pub mod Laying
pub mod Calls
pub mod Show
