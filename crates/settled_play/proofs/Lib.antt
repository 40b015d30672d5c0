pub mod Finding
mod Waiting
pub mod Links
mod Putting
mod Places
pub mod Steps
pub mod Moves
mod Pairs
mod Afresh
pub mod Cuts
pub mod Meetings
pub mod Journals
mod Quiet
pub mod Rounds
pub mod Restarting
pub mod RestartActs
pub mod Plays
pub mod Leaving
