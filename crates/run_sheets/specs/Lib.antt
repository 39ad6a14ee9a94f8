pub mod Front
pub mod code
pub mod laws
pub mod examples
