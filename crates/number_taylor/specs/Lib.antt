pub mod Taylor
pub mod Order
pub mod Alternating
pub mod Positive
