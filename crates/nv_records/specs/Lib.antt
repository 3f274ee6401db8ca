pub mod Appending
pub mod Fields
pub mod Reading
pub mod Records
