pub mod Tail
pub mod laws
