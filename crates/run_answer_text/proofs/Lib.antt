pub mod LineSteps
pub mod laws
