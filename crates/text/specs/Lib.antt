pub mod Text
pub mod Typing
pub mod Page
pub mod Told
