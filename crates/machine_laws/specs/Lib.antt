pub mod Own
pub mod Statements
