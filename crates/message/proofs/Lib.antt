pub mod Found
pub mod Pairs
pub mod Heads
pub mod PairLoop
pub mod Messages
