pub mod Coming
pub mod Feeds
