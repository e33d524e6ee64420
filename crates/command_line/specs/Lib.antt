pub mod Least
pub mod Naming
