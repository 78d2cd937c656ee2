pub mod Typing
pub mod Lines
pub mod Decimals
pub mod Signs
pub mod Different
pub mod OneAnswer
