pub mod Clips
pub mod Gathered
pub mod Orders
pub mod Picked
mod Worked
pub mod SeenRows
pub mod Outlining
