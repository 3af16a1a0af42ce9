pub mod Outgoing
pub mod Sizes
