pub mod Faults
pub mod Held
pub mod Keys
pub mod Stored
pub mod Tidied
pub mod Values
