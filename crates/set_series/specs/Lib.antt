pub mod Series
pub mod Exact
pub mod code
