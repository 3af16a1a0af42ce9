pub mod Chains
pub mod Naming
pub mod Machines
pub mod Absent
pub mod Variants
pub mod Strand
pub mod Holding
pub mod Places
