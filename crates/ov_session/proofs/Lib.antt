pub mod Conversation
pub mod Gaining
pub mod SoFar
pub mod Talking
pub mod Turning
