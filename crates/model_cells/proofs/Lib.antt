pub mod Closed
pub mod Fitting
