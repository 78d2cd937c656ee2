pub mod Laws
pub mod Longest
pub mod Told
pub mod Cases
pub mod OneAnswer
