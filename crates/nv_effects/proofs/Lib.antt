pub mod Causes
pub mod Drained
pub mod Effects
pub mod Fair
pub mod LivingSnapshots
pub mod Released
pub mod SoundWorlds
pub mod Visits
