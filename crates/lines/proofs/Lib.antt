pub mod Line
pub mod Over
pub mod Calls
pub mod Chunk
pub mod Kept
pub mod Stream
