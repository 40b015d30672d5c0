pub mod Texts
pub mod Verifies
pub mod Ends
