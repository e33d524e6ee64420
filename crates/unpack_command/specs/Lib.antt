pub mod Since
pub mod Folders
pub mod Steps
pub mod Told
pub mod Rescues
pub mod Reports
pub mod RescueSteps
