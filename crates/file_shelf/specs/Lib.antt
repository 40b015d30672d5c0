pub mod DiskOf
pub mod FileNames
pub mod MemoryOf
pub mod Outcomes
pub mod ShelfOf
pub mod Tallies
pub mod Told
pub mod ToldLaws
