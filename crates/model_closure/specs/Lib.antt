pub mod Weights
pub mod Closure
pub mod Exact
pub mod code
