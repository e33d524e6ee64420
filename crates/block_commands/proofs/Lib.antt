pub mod ChunkCalls
pub mod FolderCalls
pub mod Folders
pub mod Free
pub mod Less
pub mod ReadParts
pub mod Uncut
