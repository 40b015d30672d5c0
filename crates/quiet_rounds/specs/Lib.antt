pub mod Bounded
pub mod Left
pub mod Enough
pub mod Laws
