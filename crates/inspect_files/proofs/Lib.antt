pub mod Surveyed
pub mod Totals
