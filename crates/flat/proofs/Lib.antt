pub mod Rows
pub mod Places
pub mod Named
pub mod OneAnswer
