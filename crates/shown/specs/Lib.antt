pub mod Shown
pub mod Rows
pub mod Statements
