pub mod Sets
pub mod Search
pub mod OfTables
pub mod Statements
