pub mod Nets
pub mod Made
pub mod Reports
pub mod Coming
pub mod Promise
pub mod Bounds
pub mod Leaving
pub mod Stopping
