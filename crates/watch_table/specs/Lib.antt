pub mod Hooks
pub mod Subjects
pub mod Listening
pub mod Clients
pub mod Watched
