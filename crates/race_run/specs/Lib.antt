pub mod Found
pub mod Compared
pub mod Replay
pub mod Scripts
