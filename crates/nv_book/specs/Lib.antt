pub mod Records
pub mod Runs
pub mod Manifests
pub mod Listed
pub mod Store
pub mod HeldSpans
pub mod History
pub mod Book
