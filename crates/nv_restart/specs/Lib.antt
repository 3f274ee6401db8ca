pub mod Happenings
pub mod Mounted
pub mod Restarted
pub mod Snapshots
pub mod Stops
