pub mod Inspection
pub mod Example
