pub mod Track
pub mod Lent
pub mod Inner
