pub mod Rescues
pub mod Steps
