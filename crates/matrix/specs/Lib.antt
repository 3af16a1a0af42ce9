pub mod Matrix
pub mod Entries
pub mod Whole
pub mod Statements
