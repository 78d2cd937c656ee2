pub mod Numbered
pub mod OneAnswer
