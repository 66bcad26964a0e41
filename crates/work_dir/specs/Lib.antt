pub mod Chunks
pub mod Beginnings
pub mod NextSteps
pub mod OpenJobs
