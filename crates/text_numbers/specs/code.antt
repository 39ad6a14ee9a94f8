pub mod DigitWord
pub mod Parts
