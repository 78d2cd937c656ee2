pub mod Ranges
pub mod OneAnswer
