pub mod Strand
pub mod Moved
pub mod Standing
pub mod Steps
pub mod Reports
pub mod Deliveries
pub mod Theorems
