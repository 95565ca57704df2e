pub mod Pending
pub mod Whole
