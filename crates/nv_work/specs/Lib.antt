pub mod Taken
pub mod Threads
pub mod Work
pub mod Working
