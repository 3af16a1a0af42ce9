pub mod Read
pub mod Turns
pub mod Statement
pub mod Beside
pub mod Kept
