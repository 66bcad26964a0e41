pub mod Beginning
pub mod Boxes
pub mod Growing
pub mod Guarding
pub mod Standing
pub mod Waiting
