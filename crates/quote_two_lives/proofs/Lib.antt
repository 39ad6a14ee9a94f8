pub mod Running
pub mod laws
