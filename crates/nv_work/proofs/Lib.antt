pub mod Crews
pub mod Forking
pub mod Reported
pub mod Seats
pub mod Told
