pub mod Bounds
pub mod Events
pub mod Counting
pub mod Running
pub mod Built
pub mod Questions
pub mod Calls
pub mod Parts
