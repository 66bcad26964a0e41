pub mod Chunks
pub mod Jobs
