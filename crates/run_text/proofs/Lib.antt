pub mod Places
pub mod Answering
pub mod Moments
pub mod Runs
pub mod Committing
mod Rows
