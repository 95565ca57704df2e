pub mod Slot
pub mod Back
pub mod Survival
