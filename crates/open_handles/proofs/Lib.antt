pub mod Slots
pub mod Holding
pub mod TrackedClients
pub mod TrackedUses
pub mod TrackedWays
