pub mod Permits
pub mod Near
pub mod There
pub mod Answers
pub mod Pairs
pub mod Calls
pub mod Theorems
