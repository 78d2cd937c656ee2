pub mod Laws
pub mod Patterns
pub mod OneAnswer
pub mod InTurn
pub mod Tied
