pub mod Last
pub mod HolderLaws
mod Places
mod Sound
pub mod Pins
