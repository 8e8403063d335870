pub mod Rays
pub mod Starts
