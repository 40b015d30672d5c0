mod Back
mod Coming
pub mod Moments
mod Places
mod Space
mod Undone
