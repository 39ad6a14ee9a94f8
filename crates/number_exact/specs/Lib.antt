pub mod Value
pub mod Figure
pub mod examples
