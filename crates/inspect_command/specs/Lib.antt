pub mod Remarks
pub mod Remarking
pub mod Statuses
pub mod Documents
