pub mod Flat
pub mod Batch
