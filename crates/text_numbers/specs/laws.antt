pub mod Lanewise
pub mod PairLaws
pub mod JoinLaws
pub mod MarkLaws
pub mod ShiftLaws
pub mod FrontLaws
