pub mod Conversing
pub mod Devices
pub mod Doors
pub mod Heard
pub mod Serving
pub mod Sessions
pub mod Talks
