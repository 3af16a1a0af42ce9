pub mod Sums
pub mod Columns
pub mod Counters
pub mod Rows
pub mod Places
pub mod Accepted
pub mod Books
pub mod Theorems
