pub mod Real
pub mod Board
