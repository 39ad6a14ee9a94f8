pub mod Figures
pub mod Theorem
pub mod VerdictLaws
