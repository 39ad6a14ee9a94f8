pub mod CoupleLine
pub mod laws
