mod Rows
pub mod Paying
pub mod Clocks
pub mod Providing
pub mod Turns
pub mod Aggregating
pub mod Silent
pub mod Lates
pub mod LateEntries
pub mod Planes
pub mod Changes
pub mod ChangeEntries
pub mod Hearers
