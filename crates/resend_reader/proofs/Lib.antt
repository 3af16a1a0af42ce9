pub mod Formed
pub mod OneEntry
pub mod EntryLoop
pub mod WholeList
