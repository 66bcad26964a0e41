pub mod Arguments
pub mod Faults
