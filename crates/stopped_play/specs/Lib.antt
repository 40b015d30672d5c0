pub mod Tapes
pub mod Rounds
pub mod Play
pub mod Coming
pub mod Counts
pub mod Laws
