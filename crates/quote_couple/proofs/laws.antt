pub mod CoupleTests
pub mod Exchanged
pub mod SmallLaws
pub mod SpanZero
pub mod Theorem
pub mod Totals
