pub mod Rulesets
pub mod Reading
pub mod Judging
