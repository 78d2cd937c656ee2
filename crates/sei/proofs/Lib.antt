pub mod Header
pub mod Units
pub mod Functions
pub mod Edges
pub mod OneAnswer
