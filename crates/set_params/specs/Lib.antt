pub mod Set
pub mod Limits
pub mod code
pub mod laws
