pub mod Faults
pub mod Header
pub mod Statements
pub mod Rules
pub mod Aggregates
pub mod Check
