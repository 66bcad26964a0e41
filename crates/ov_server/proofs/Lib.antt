pub mod Clients
pub mod GoingOn
pub mod Histories
pub mod JobSteps
pub mod Manifests
pub mod Mountable
pub mod Scripts
pub mod Stages
