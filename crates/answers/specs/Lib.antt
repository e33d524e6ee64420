pub mod Damages
pub mod Faults
pub mod Lines
pub mod Answers
pub mod Outputs
pub mod Spellings
