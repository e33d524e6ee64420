pub mod Faults
pub mod Ranges
pub mod Logs
pub mod Cutting
pub mod Plans
