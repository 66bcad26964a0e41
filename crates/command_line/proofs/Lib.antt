pub mod Added
pub mod Told
