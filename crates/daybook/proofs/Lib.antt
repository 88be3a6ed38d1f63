pub mod Cutting
pub mod StatementLines
pub mod DayLemmas
pub mod Worked
pub mod Further
