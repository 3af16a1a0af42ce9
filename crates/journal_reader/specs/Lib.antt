pub mod Asking
pub mod Filling
