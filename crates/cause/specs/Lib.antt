pub mod Cause
pub mod Shown
