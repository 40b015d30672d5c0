pub mod ScriptLemmas
pub mod Given
pub mod Later
mod DoorSteps
pub mod Steps
pub mod RestartSteps
mod Receipts
pub mod TurnSteps
pub mod NetSteps
pub mod ActSteps
pub mod PlaySteps
pub mod Names
mod Printing
pub mod Room
pub mod Opening
pub mod Asking
pub mod PlayAsks
pub mod Resting
mod RunLaws
mod Rows
mod Sending
pub mod Acked
