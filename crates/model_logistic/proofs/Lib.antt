pub mod Force
pub mod laws
