pub mod Runs
pub mod Slots
pub mod Posted
pub mod Laying
pub mod Theorems
