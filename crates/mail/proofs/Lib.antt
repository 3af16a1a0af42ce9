pub mod Turns
pub mod Pairs
pub mod Messages
