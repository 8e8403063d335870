pub mod Ranges
pub mod Loans
pub mod Turns
pub mod Sofar
pub mod Placing
pub mod Answers
pub mod Came
