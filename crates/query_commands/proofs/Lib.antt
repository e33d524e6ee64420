pub mod Dumped
pub mod Growing
pub mod RunSearch
pub mod Requested
pub mod SeenDump
