pub mod Contents
pub mod Limits
pub mod View
pub mod Tables
pub mod TwoRules
