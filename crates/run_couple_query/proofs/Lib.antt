pub mod CoupleSteps
