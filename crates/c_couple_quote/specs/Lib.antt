pub mod SheetsCouple
pub mod laws
pub mod examples
