pub mod Bounds
pub mod Holds
pub mod Narrowing
pub mod NoInterest
pub mod OrdersAgree
pub mod Same
pub mod Steps
pub mod Width
