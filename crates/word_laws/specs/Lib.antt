pub mod Values
pub mod Statements
