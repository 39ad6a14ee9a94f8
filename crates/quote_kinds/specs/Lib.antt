pub mod Kinds
pub mod code
pub mod laws
