pub mod Answers
pub mod Facts
pub mod Holds
pub mod Narrowing
pub mod NoInterest
pub mod Oldest
pub mod OrdersAgree
pub mod Width
