pub mod Layout
pub mod Formed
pub mod Read
pub mod Parts
