pub mod Commands
pub mod Crashed
pub mod Listings
pub mod ListLemmas
pub mod Takes
pub mod Unpacked
pub mod Rescued
