pub mod Logistic
pub mod Exact
pub mod Units
pub mod Positive
pub mod code
