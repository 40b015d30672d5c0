pub mod Batches
pub mod Fronts
pub mod Files
pub mod Opening
pub mod StartOf
pub mod Keeping
pub mod Leaving
pub mod Laws
