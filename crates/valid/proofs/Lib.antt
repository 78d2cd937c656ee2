pub mod Laws
pub mod Clauses
pub mod Made
pub mod OneAnswer
