pub mod Bytes
pub mod Encode
pub mod ReadTurns
pub mod Reading
pub mod Sequence
pub mod Theorems
pub mod WriteTurns
