pub mod Signed
pub mod Reading
mod Zeros
pub mod OneAnswer
