pub mod SetRuns
pub mod Filling
pub mod Searching
pub mod Answering
pub mod Marked
