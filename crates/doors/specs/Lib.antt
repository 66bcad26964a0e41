pub mod owned
pub mod shared
pub mod endless
