pub mod Flags
pub mod Lengths
pub mod Places
pub mod Stages
