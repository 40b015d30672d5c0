pub mod RunsTo
pub mod VerifiesTo
pub mod Asked
pub mod Check
pub mod Ends
pub mod Plain
pub mod RacesTo
