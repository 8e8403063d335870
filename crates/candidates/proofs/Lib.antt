pub mod Trials
pub mod Block
pub mod Said
