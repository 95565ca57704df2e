pub mod Backward
pub mod Surviving
pub mod ByHand
