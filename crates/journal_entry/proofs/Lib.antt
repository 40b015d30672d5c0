pub mod Parts
pub mod Taken
pub mod Again
pub mod Batched
pub mod Spellable
pub mod Loop
pub mod Recovered
pub mod Counted
pub mod Left
mod Rows
