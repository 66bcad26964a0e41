pub mod Exchanges
pub mod Claiming
pub mod GoingOn
pub mod Advancing
