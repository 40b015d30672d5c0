pub mod Ids
pub mod Kinds
pub mod Messages
pub mod Printable
pub mod Ranges
pub mod States
