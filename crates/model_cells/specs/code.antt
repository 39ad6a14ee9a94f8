pub mod Fitted
pub mod Code
