pub mod Board
pub mod Blocks
pub mod Walk
pub mod Crate
