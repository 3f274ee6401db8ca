pub mod Cleaned
pub mod Cover
pub mod Plans
