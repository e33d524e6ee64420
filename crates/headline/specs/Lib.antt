pub mod Stretched
pub mod Records
pub mod Still
