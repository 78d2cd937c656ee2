pub mod Room
pub mod Parts
pub mod OneAnswer
