pub mod Listing
pub mod Merging
pub mod Runs
pub mod Showing
