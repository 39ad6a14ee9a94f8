pub mod Calendar
pub mod laws
pub mod examples
