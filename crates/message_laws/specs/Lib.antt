pub mod Formed
pub mod Statements
