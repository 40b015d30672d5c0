pub mod Taken
pub mod Names
pub mod Exchanges
pub mod Marks
pub mod Retry
pub mod Numbered
pub mod Spans
