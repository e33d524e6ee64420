mod Begun
mod Hours
pub mod Sends
