pub mod Pages
pub mod Runs
pub mod Rows
