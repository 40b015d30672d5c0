pub mod Settling
mod OnePlay
mod Untold
mod Rows
