pub mod Set
pub mod Shown
pub mod Intel
