mod Clients
mod Ends
