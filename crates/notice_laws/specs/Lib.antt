pub mod Notified
pub mod Objects
pub mod Telling
pub mod Steps
pub mod Places
pub mod Opens
pub mod Moves
pub mod Clients
