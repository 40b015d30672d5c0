pub mod Awaited
pub mod Laws
