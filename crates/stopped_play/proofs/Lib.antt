pub mod Calm
pub mod Steps
pub mod Making
pub mod Runs
pub mod Asks
pub mod Reading
pub mod Leaving
mod Rows
pub mod Coming
pub mod Bounds
pub mod Whole
pub mod Counting
