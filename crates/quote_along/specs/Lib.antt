pub mod QuoteBy
pub mod code
pub mod laws
