pub mod Channels
pub mod Sizes
pub mod Shows
pub mod Built
pub mod Running
pub mod Written
pub mod Whole
pub mod Theorems
