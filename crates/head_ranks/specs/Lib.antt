pub mod Counts
pub mod Ranks
pub mod Counting
pub mod Ranked
