pub mod Register
pub mod Layout
pub mod Stores
pub mod Groups
pub mod Keeping
pub mod Held
pub mod State
