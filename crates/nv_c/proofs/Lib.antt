pub mod Loosened
pub mod Made
pub mod Paths
pub mod Slotted
pub mod Statuses
