pub mod Products
pub mod Units
