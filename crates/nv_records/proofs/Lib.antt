pub mod Calls
pub mod Fields
pub mod Fronts
pub mod Records
