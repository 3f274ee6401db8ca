pub mod CommandLine
pub mod Serving
pub mod Session
pub mod Texts
