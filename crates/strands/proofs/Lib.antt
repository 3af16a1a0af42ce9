pub mod Slots
pub mod Posting
