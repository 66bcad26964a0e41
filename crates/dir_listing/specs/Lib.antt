pub mod Bound
pub mod Shown
