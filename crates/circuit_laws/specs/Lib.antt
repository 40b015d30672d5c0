pub mod Backed
pub mod Opened
pub mod Safe
pub mod SafeLaws
pub mod Laws
