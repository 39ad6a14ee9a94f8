pub mod Holds
pub mod Narrowing
pub mod OrdersAgree
pub mod Sizes
pub mod Steps
pub mod Width
