pub mod SheetQuote
pub mod laws
pub mod examples
