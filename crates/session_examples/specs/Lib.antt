pub mod Books
pub mod Outcome
pub mod Real
