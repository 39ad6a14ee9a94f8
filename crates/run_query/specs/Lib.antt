pub mod Query
pub mod code
pub mod laws
pub mod examples
