pub mod Ends
pub mod Statements
