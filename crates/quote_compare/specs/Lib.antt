pub mod Compare
pub mod code
pub mod examples
