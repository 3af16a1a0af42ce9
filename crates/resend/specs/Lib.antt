pub mod Layout
pub mod Questions
pub mod Calls
