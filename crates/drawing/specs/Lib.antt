pub mod Deriving
pub mod Applying
pub mod Supports
pub mod Passing
pub mod Demands
pub mod Sweeps
pub mod Drawings
