pub mod Nearest
pub mod Recent
pub mod Shown
