pub mod Refused
pub mod Replaying
