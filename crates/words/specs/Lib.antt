pub mod Words
pub mod Plain
pub mod Participant
pub mod Initiator
pub mod Session
