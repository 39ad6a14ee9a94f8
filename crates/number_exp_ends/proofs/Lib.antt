pub mod Pairs
pub mod Products
