pub mod DigitSteps
pub mod EntrySteps
