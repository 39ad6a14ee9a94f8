pub mod PeriodLaws
pub mod SoughtLaws
pub mod Theorem
