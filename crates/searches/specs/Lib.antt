pub mod Lowest
pub mod Search
pub mod Run
pub mod Parts
