pub mod Folds
pub mod Exact
pub mod code
pub mod laws
