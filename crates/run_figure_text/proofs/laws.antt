pub mod FigureTextLaws
pub mod ReadingLaws
