pub mod Labels
pub mod Settling
