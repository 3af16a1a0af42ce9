pub mod Rows
pub mod ProcessTurns
pub mod AllTurns
pub mod Joined
pub mod Calls
