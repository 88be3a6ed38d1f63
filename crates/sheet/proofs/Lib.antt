pub mod Apart
pub mod Sought
pub mod Bytes
pub mod Ledgers
pub mod Made
pub mod Refused
pub mod Reasons
