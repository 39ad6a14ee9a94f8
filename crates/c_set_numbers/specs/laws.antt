pub mod SetNumbersLaws
pub mod AnswerLaws
pub mod NumbersTrip
