pub mod Adding
pub mod Admitting
pub mod Fronts
pub mod Growing
pub mod Keeping
pub mod Numbering
