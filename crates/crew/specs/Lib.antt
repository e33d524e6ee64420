pub mod BothDone
pub mod Jobs
pub mod Tickets
