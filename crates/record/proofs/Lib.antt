pub mod Laws
pub mod OneAnswer
pub mod Edges
