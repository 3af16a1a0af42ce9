pub mod Counts
pub mod Entries
pub mod Turns
pub mod Answers
