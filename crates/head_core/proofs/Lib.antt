pub mod Lists
pub mod Shown
pub mod More
pub mod Validity
pub mod Reading
pub mod Limits
pub mod Taking
pub mod Binding
pub mod Whole
pub mod Assembling
pub mod OneContent
pub mod Truncating
pub mod RoomLemmas
pub mod RoomCounts
pub mod Applied
pub mod AppliedValues
pub mod AppliedOutcomes
pub mod Projected
mod AppliedWorked
mod ValidityWorked
pub mod DraftLemmas
pub mod Idle
pub mod Growing
pub mod OnlyCounted
pub mod Numbered
