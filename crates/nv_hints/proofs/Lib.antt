pub mod Nearer
pub mod Visible
pub mod Windows
