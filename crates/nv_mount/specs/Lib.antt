pub mod Build
pub mod Filling
pub mod Missing
pub mod Mount
pub mod Plan
pub mod Slots
pub mod View
