pub mod Name
pub mod Level
pub mod Blocks
pub mod Made
