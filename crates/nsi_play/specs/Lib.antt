pub mod Openings
pub mod Rounds
pub mod Play
pub mod Laws
