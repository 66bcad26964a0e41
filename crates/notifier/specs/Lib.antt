pub mod Notifying
pub mod Arming
pub mod Opening
pub mod Moving
