pub mod Joins
pub mod Units
pub mod Payloads
pub mod Numbers
pub mod Where
pub mod Why
