pub mod SetNumbers
pub mod code
pub mod laws
