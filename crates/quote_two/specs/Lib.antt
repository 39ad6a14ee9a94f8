pub mod Claim
pub mod code
pub mod laws
