pub mod CoupleQuery
pub mod code
pub mod laws
pub mod examples
