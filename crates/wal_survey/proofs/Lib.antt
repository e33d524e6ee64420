mod Bits
mod DistinctReferences
mod Notes
mod TakenReferences
pub mod Distinct
pub mod Ends
pub mod Events
pub mod Skipped
pub mod Steps
pub mod Taken
pub mod Worked
