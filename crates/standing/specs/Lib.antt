pub mod Standing
pub mod Text
