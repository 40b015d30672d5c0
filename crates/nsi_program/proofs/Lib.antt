pub mod Checks
pub mod Ended
pub mod OneText
pub mod Nothing
pub mod Completing
pub mod Plainly
mod Verdicts
mod CheckRows
mod Races
