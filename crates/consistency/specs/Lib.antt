pub mod Set
pub mod Known
pub mod Given
pub mod Statements
