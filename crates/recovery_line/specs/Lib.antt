pub mod Books
pub mod Journals
pub mod Lines
pub mod Machines
pub mod Sessions
pub mod Moves
pub mod Resends
pub mod Version
