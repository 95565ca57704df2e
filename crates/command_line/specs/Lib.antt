pub mod CommandLine
pub mod Columns
