pub mod Rounding
pub mod Signed
pub mod laws
