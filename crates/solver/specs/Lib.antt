pub mod Reducts
pub mod Smaller
pub mod Parts
pub mod Accounts
pub mod Words
pub mod Support
pub mod Examples
