pub mod WordSteps
pub mod QuerySteps
