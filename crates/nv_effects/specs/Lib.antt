pub mod Causes
pub mod Effects
pub mod Held
pub mod Snapshots
pub mod Sound
pub mod Suits
