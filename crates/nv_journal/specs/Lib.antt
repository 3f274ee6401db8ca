pub mod Journal
