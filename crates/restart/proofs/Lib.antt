pub mod Purposes
pub mod Values
pub mod Plans
pub mod Orders
