pub mod Worth
pub mod Laws
