pub mod Sets
pub mod Digits
pub mod Marks
pub mod Fields
