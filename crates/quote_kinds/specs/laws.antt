pub mod KindLaws
pub mod PartLaws
