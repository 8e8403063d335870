pub mod Masks
pub mod Steps
pub mod Along
