pub mod Row
pub mod Sound
