pub mod Written
pub mod Joining
pub mod Placed
pub mod Grounding
pub mod Reports
pub mod Lines
pub mod Worked
