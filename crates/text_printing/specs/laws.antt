pub mod NumberLengths
pub mod OverwrittenLaws
pub mod PutLaws
