pub mod Ascii
pub mod Text
pub mod Put
pub mod Line
pub mod Parts
