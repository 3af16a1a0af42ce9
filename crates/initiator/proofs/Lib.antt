pub mod Fitting
pub mod Steps
pub mod Polling
pub mod Calls
