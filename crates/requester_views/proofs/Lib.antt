pub mod Learnt
pub mod Between
