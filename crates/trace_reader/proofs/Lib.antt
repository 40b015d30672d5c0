pub mod Cuts
pub mod Again
pub mod Exact
pub mod Clear
pub mod Runs
mod Rows
pub mod Named
