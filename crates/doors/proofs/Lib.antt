pub mod Playing
pub mod Whole
pub mod Stepping
mod Claimed
mod Seen
