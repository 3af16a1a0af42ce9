pub mod Ending
pub mod Laws
pub mod Number
pub mod Sequence
pub mod Write
