pub mod Checksum
pub mod Spellings
pub mod Numbers
pub mod Reading
pub mod Writing
pub mod Lists
pub mod Padding
pub mod Sums
