pub mod CompareLaws
pub mod MeaningLaws
pub mod SmallLaws
pub mod Theorem
pub mod UnitLaws
