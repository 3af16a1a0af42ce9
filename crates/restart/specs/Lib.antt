pub mod Plan
pub mod Values
pub mod Calls
