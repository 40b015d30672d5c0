pub mod State
pub mod Entries
