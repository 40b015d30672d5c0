pub mod Taking
pub mod Plays
pub mod Coming
