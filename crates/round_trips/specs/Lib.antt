pub mod WellFormed
pub mod Statements
