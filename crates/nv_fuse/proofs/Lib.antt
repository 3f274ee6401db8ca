pub mod Appends
pub mod Cuts
pub mod Listings
pub mod Tables
pub mod Wholes
