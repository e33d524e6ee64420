pub mod Calls
pub mod Disk
pub mod Entries
pub mod Found
pub mod Moved
pub mod Several
pub mod Shown
pub mod Views
