pub mod Bytes
pub mod Numbers
pub mod Owned
pub mod Status
pub mod Worlds
