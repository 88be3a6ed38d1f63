pub mod Search
pub mod Nogoods
pub mod Outcomes
