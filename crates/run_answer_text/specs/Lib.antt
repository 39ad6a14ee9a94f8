pub mod AnswerText
pub mod code
pub mod examples
