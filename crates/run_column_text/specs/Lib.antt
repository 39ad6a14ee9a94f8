pub mod Column
pub mod code
pub mod laws
pub mod examples
