pub mod Lines
pub mod Traces
pub mod Verdicts
pub mod Standing
pub mod Steps
pub mod Parcels
