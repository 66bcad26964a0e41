pub mod Showing
pub mod Needs
pub mod Leaves
pub mod Altering
pub mod Texts
