mod Names
pub mod Rows
pub mod Whole
