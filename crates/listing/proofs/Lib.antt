pub mod CallLaws
pub mod Pieces
