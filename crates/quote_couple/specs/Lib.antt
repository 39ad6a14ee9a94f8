pub mod Couple
pub mod code
