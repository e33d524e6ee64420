pub mod OnFile
pub mod Conditions
pub mod Told
pub mod Floats
