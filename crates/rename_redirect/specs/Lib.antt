pub mod Linking
pub mod Renaming
pub mod Routes
pub mod Judging
