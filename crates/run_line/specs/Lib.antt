pub mod Line
pub mod laws
