pub mod Working
pub mod WorkRuns
pub mod Idle
pub mod UnderWay
pub mod Entries
mod Rows
