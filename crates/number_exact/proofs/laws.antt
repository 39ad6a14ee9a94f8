pub mod FigureLaws
pub mod OneValue
pub mod Rounding
pub mod Units
pub mod ValueLaws
