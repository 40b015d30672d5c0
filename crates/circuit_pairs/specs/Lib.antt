pub mod Pairs
pub mod Minding
pub mod Laws
