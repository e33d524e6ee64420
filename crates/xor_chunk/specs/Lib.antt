pub mod Parts
pub mod Samples
pub mod Bits
pub mod Chunks
pub mod Reading
pub mod Private
pub mod Faults
pub mod Writing
