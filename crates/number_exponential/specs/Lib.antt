pub mod Grid
pub mod Exponential
pub mod Units
pub mod Outward
pub mod examples
