pub mod Files
pub mod Sums
pub mod Inspections
