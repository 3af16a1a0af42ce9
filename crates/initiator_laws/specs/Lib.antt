pub mod Accepts
pub mod Statements
