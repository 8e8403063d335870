pub mod Pack
pub mod Promised
