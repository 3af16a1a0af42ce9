pub mod Fits
pub mod Begin
pub mod Step
pub mod Calls
