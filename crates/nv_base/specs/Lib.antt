pub mod Homes
pub mod Ids
pub mod Limits
pub mod Names
pub mod Memory
pub mod Refusals
pub mod Texts
