pub mod Moves
pub mod Appended
pub mod Statements
