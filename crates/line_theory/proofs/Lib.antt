pub mod Tests
pub mod Faults
pub mod Steps
pub mod Line
pub mod StepsBack
pub mod Accepted
pub mod Theorems
