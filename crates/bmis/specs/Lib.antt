pub mod Bmis
