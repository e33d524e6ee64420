pub mod Windows
pub mod Zips
pub mod Short
pub mod Spans
pub mod Written
pub mod Outlines
pub mod Found
pub mod Full
