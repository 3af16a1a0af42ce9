pub mod Workers
pub mod Held
pub mod Fits
pub mod Steps
pub mod Calls
pub mod Turns
