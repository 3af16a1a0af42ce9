pub mod Computing
pub mod Once
pub mod Sessions
pub mod Real
