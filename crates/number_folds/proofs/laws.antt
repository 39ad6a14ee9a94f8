pub mod Bounds
pub mod Holds
pub mod Narrowing
pub mod OrdersAgree
pub mod Parts
pub mod Plain
pub mod Steps
pub mod Width
