pub mod Span
pub mod Choice
