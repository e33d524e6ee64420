pub mod Stretched
pub mod Recorded
pub mod Unlimited
pub mod Still
pub mod SeenAlike
