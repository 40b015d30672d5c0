pub mod Plays
pub mod Askers
pub mod Handed
pub mod Alone
pub mod Hearing
pub mod Played
