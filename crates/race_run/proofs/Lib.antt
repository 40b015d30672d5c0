pub mod Replaying
pub mod Fronts
