pub mod Quote
pub mod Demand
pub mod code
