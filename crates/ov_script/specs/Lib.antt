pub mod Commands
pub mod Escapes
pub mod Flags
pub mod Lines
pub mod Numbers
pub mod Words
