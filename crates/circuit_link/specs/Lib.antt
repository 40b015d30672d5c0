pub mod Sides
pub mod Links
pub mod Headers
pub mod Children
pub mod Mates
pub mod Serving
pub mod Laws
