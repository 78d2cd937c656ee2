pub mod Blocks
pub mod Cases
pub mod Different
pub mod Longest
pub mod OneAnswer
