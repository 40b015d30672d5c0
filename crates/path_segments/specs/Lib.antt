pub mod Paths
pub mod Walks
pub mod Steps
pub mod Named
pub mod Searches
pub mod ChildSearches
pub mod SearchOf
