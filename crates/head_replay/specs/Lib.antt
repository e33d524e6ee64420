pub mod Standing
pub mod Taken
pub mod Taking
pub mod Faults
pub mod Partial
pub mod Parts
pub mod Tallies
