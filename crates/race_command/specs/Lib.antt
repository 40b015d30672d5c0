pub mod Lines
pub mod Ends
pub mod Outcomes
pub mod Contests
