pub mod Making
pub mod Stepping
pub mod LeafSteps
pub mod Unnaming
pub mod Freed
pub mod Removing
pub mod Sights
