pub mod Given
pub mod Held
pub mod Kept
pub mod Next
pub mod Whole
