pub mod LookUp
pub mod Audit
