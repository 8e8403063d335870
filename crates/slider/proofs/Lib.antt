pub mod Batches
pub mod Unique
