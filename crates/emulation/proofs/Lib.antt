pub mod Laws
pub mod Loops
pub mod Edges
pub mod OneAnswer
