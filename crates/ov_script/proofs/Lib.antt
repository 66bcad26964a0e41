pub mod EscapeLaws
pub mod Escapes
pub mod Ranges
pub mod Words
