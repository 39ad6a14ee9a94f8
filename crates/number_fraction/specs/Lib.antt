pub mod Ratio
pub mod Bracket
pub mod Fraction
