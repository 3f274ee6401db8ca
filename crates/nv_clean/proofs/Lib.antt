pub mod BlockCounts
mod Counted
pub mod Cleanings
pub mod Covering
pub mod Kept
pub mod Pages
pub mod Unmoved
pub mod Walking
