pub mod Beside
pub mod Inherited
pub mod Memory
pub mod Names
pub mod Outcomes
pub mod Shown
