pub mod AnswerLaws
pub mod IntoLaws
pub mod RunLaws
