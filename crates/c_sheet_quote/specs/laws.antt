pub mod AnswerLaws
pub mod Kept
