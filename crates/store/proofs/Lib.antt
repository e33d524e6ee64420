pub mod Moving
mod Showing
pub mod Reading
pub mod Zipped
