pub mod Sixteen
pub mod Rows
pub mod Flags
pub mod StepsBack
pub mod Calls
pub mod Theorems
