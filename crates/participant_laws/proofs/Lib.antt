pub mod Accepted
pub mod Calls
pub mod Steps
pub mod Fits
pub mod Falls
pub mod Report
pub mod Local
pub mod Theorems
