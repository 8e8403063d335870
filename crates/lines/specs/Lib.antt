pub mod Line
pub mod Stream
pub mod Calls
pub mod Run
