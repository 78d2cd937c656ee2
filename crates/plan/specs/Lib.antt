pub mod Limit
pub mod Pictures
pub mod Scanning
pub mod Entries
pub mod Planning
pub mod Seeking
