pub mod Words
pub mod Requests
pub mod Telling
pub mod Standing
pub mod Rows
pub mod Reasons
pub mod Days
pub mod Examples
