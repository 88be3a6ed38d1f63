pub mod Ledger
pub mod Standing
pub mod Sheets
pub mod Outcomes
pub mod Runs
pub mod Law
pub mod Theorems
