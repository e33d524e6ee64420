pub mod Listed
pub mod Unions
pub mod Kept
pub mod GivenLemmas
pub mod Ascending
pub mod PostingLemmas
pub mod RoomLemmas
