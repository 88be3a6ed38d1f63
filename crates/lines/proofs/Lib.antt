pub mod Following
pub mod Digits
pub mod Steps
pub mod Room
