pub mod TakenLemmas
pub mod Partial
pub mod SeenHistories
