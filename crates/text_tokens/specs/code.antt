pub mod Places
pub mod Unsigned
