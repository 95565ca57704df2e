pub mod LineLaws
pub mod BackLaws
