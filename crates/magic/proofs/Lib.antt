pub mod LookUps
pub mod Audits
pub mod Accepts
pub mod Attacks
pub mod Faults
pub mod Refuses
