pub mod AnswerLaws
pub mod FirstOfYear
pub mod NoInterest
pub mod Promises
pub mod Tests
pub mod Theorem
