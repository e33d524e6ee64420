pub mod Intervals
pub mod Parts
