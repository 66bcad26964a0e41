pub mod Pages
pub mod Names
pub mod Numbered
pub mod Steps
pub mod Views
