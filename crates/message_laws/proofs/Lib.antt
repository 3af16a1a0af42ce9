pub mod Pairs
pub mod News
pub mod Whole
pub mod Theorems
