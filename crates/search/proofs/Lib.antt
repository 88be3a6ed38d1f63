pub mod Keeping
pub mod Following
pub mod Resolving
pub mod Narrowing
pub mod Guessing
pub mod Levels
