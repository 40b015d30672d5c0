pub mod Within
pub mod Lists
pub mod Heard
pub mod Children
pub mod Ranks
pub mod Sums
pub mod Few
pub mod Messages
