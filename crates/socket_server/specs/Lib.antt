pub mod Clients
pub mod EndlessClients
pub mod Working
