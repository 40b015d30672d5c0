mod Rows
pub mod Places
pub mod Growing
pub mod Saying
pub mod Holds
pub mod Reservations
pub mod Learning
pub mod AtRest
