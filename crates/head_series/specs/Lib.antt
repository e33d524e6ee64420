pub mod Texts
pub mod Rows
pub mod Table
pub mod Bindings
pub mod Room
pub mod Sound
