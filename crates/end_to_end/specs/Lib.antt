pub mod EndToEnd
pub mod Stands
pub mod Laws
