pub mod Telling
pub mod Comparing
