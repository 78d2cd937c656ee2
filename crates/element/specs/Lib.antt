pub mod Element
pub mod Refused
