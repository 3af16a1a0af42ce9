pub mod Fits
pub mod Step
pub mod Calls
