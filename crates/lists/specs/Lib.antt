pub mod Pick
pub mod Over
