pub mod Items
pub mod Orders
pub mod Moves
pub mod Theorems
