pub mod Files
pub mod Tombstones
pub mod Meta
pub mod Ulids
pub mod Places
pub mod Layouts
