pub mod Word
pub mod ShortText
