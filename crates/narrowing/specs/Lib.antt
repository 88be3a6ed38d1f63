pub mod Unfounded
pub mod Excluding
pub mod Blocking
