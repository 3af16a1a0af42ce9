pub mod Views
pub mod Lines
pub mod Tables
pub mod Appended
pub mod Chains
pub mod Theorems
