pub mod Digits
pub mod Held
pub mod Opens
pub mod Made
pub mod Noting
pub mod Counting
