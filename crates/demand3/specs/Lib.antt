pub mod Statement
pub mod Beside
