pub mod CommitRun
pub mod Chain
pub mod Fields
pub mod Image
