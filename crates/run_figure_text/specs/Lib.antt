pub mod FigureText
pub mod code
pub mod examples
