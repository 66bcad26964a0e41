pub mod Making
pub mod Leaves
pub mod Removing
pub mod Sights
