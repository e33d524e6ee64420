pub mod Written
pub mod Groups
pub mod Heads
pub mod InPasses
pub mod LostParts
pub mod SameFiles
