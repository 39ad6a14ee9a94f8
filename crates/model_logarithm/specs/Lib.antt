pub mod Logarithm
pub mod Exact
pub mod Positive
