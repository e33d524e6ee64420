pub mod ReferenceSets
pub mod Unbound
pub mod Keeping
pub mod Surveys
pub mod Taking
