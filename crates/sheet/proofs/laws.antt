pub mod BySheet
pub mod FourLaws
pub mod SetTrip
pub mod SheetTrip
