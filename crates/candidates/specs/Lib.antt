pub mod Trial
pub mod OneBlock
