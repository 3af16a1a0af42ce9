pub mod Starred
pub mod Columns
pub mod InFlight
pub mod SentAgain
