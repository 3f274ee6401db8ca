pub mod Paths
pub mod Stands
pub mod Told
