pub mod TextSteps
pub mod DigitSteps
pub mod NumberSteps
