pub mod Bytes
pub mod Areas
