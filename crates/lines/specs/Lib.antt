pub mod Reports
pub mod Lines
