pub mod Unfounded
pub mod Blocking
