pub mod Weights
pub mod Literals
pub mod Bodies
pub mod Rulebooks
