pub mod Faults
pub mod Laws
pub mod Pasts
pub mod Moments
pub mod Reading
