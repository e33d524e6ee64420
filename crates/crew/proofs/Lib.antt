pub mod BothDone
pub mod Halves
pub mod TicketRule
