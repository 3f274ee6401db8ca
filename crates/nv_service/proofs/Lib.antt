mod Closes
mod NotOlder
pub mod PartBlocks
