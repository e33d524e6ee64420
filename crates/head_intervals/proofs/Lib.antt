pub mod Placing
pub mod Summing
pub mod Counted
pub mod Ended
pub mod Parted
