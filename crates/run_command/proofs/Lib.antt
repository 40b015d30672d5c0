pub mod Closing
pub mod Wholes
pub mod Running
pub mod Inputs
pub mod Light
