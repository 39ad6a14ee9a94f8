pub mod Sums
pub mod examples
pub mod laws
