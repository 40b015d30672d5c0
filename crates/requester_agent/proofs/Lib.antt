mod Rows
pub mod Asked
pub mod Queries
pub mod Mild
pub mod Entries
pub mod Listens
pub mod HeardAt
pub mod Labelled
pub mod Indexed
pub mod Naming
