pub mod Line
pub mod Steps
pub mod Statements
