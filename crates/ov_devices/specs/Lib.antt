pub mod Devices
pub mod Kinds
