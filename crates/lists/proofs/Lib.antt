pub mod Tests
pub mod Pick
pub mod Over
pub mod Before
pub mod Lowest
pub mod Stores
pub mod Filling
