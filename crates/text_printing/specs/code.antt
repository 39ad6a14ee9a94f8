pub mod Overwritten
pub mod Put
