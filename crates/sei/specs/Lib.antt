pub mod Header
pub mod SeiUnit
pub mod Units
