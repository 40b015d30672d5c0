pub mod Plane
pub mod Joined
