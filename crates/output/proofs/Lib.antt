pub mod Output
pub mod OneAnswer
