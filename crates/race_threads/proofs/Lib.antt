mod Sitting
mod Asked
mod Weighing
pub mod Lone
pub mod Begun
pub mod Served
