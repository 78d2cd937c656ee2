pub mod Writing
pub mod OneAnswer
