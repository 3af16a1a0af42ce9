pub mod Rows
pub mod Equal
pub mod RowPut
pub mod Sweep
pub mod Zeros
pub mod News
pub mod Theorems
pub mod Made
