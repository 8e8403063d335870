pub mod Builds
pub mod Turn
