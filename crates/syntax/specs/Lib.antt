pub mod Data
pub mod Element
pub mod Told
pub mod Wrapper
pub mod Reason
pub mod Largest
pub mod Limits
