pub mod Own
pub mod Named
pub mod Flags
pub mod Sends
