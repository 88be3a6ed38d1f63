pub mod Text
pub mod Grounds
pub mod Pieces
pub mod Shown
pub mod Marks
pub mod Examples
pub mod MarkExamples
pub mod Accounts
