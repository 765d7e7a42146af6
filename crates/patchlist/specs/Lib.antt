pub mod Example
pub mod Session
