pub mod Staying
pub mod Views
pub mod Records
pub mod Growing
pub mod Providers
pub mod Turned
pub mod Aggregators
pub mod Requesters
pub mod Roles
pub mod Worlds
pub mod Fronts
pub mod Entered
pub mod Honest
pub mod Mild
pub mod Alone
pub mod Risen
pub mod Versions
mod Rows
mod Together
mod Plays
pub mod Grown
pub mod Sent
pub mod Starting
pub mod WorldCuts
