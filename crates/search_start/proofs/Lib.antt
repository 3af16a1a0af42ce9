pub mod Start
pub mod Invited
pub mod Searching
pub mod Asked
pub mod Waiting
pub mod Alone
pub mod Restarting
pub mod Theorems
