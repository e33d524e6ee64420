pub mod Order
pub mod Appended
pub mod Counted
pub mod Events
pub mod LinesOfLost
pub mod Readable
pub mod Readings
pub mod Results
pub mod Slotted
pub mod Told
pub mod Unread
pub mod Whole
mod Blocks
mod Hints
mod Reduced
mod PagesOn
mod ReadOn
pub mod UpTo
mod FormsRead
mod TextsOf
mod TextsOn
mod NextNumber
