pub mod Slots
pub mod Postings
pub mod Given
pub mod Placed
pub mod Room
