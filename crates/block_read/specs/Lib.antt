pub mod Blocks
pub mod Faults
pub mod Reading
pub mod Counts
