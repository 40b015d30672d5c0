pub mod Strange
pub mod Acts
mod Closing
mod Racing
