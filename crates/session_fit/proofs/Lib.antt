pub mod Read
pub mod Holds
pub mod Places
pub mod Theorems
