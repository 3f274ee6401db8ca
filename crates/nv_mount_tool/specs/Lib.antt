pub mod Answered
pub mod Asked
pub mod CommandLine
pub mod Serve
pub mod Stream
