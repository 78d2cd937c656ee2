pub mod Laws
pub mod OneAnswer
pub mod Back
pub mod Pins
