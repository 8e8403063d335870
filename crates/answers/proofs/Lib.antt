pub mod Tests
pub mod Ground
pub mod Board
pub mod Border
pub mod Packing
pub mod Found
pub mod Batches
