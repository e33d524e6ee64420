pub mod Clipping
pub mod Rows
pub mod Outlines
pub mod Outlined
