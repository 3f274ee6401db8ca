pub mod Errors
pub mod Fields
pub mod Forms
pub mod Replies
pub mod Requests
pub mod Rows
pub mod Stream
pub mod Written
