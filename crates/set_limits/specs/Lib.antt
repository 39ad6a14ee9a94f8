pub mod InLimits
pub mod laws
