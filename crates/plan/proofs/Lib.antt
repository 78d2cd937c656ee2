pub mod Chosen
pub mod Merging
pub mod Reaching
pub mod OneAnswer
