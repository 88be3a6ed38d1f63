pub mod Bags
pub mod Readings
pub mod Spans
pub mod Sums
pub mod Tallies
pub mod Text
