pub mod SheetTarget
