pub mod Answers
pub mod Delivering
pub mod Starting
pub mod Turning
