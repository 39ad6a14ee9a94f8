pub mod SheetLaws
pub mod FirstLaws
