pub mod Sums
pub mod Entries
pub mod Filling
pub mod InTable
