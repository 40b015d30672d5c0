pub mod Homes
pub mod Steps
pub mod Kinds
pub mod Standing
pub mod Said
pub mod Told
pub mod Asked
pub mod Laws
