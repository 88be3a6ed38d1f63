pub mod Spans
pub mod Picking
pub mod Extremes
pub mod Readings
pub mod Numbers
