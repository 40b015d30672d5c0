pub mod Costs
pub mod Changes
pub mod Laws
