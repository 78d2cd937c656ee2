pub mod Wrapper
