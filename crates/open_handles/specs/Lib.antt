pub mod Descriptors
pub mod Listings
pub mod Holding
pub mod FileHolders
pub mod Places
pub mod TrackedHandles
