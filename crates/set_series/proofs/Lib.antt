pub mod Chosen
pub mod laws
