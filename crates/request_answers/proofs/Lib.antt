pub mod Carrying
pub mod Taking
pub mod Serving
pub mod Querying
pub mod Providing
pub mod Entries
pub mod Providers
pub mod Turning
pub mod Below
pub mod Aggregating
pub mod Resting
pub mod Aggregators
mod Rows
