pub mod Selections
pub mod Dumps
pub mod Requests
pub mod Shares
