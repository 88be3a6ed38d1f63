pub mod Deriving
pub mod Applying
pub mod Supporting
pub mod Explanations
pub mod Demanding
pub mod Supported
pub mod Passes
pub mod Ending
