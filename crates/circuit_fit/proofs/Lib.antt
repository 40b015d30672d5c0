pub mod Hearing
pub mod Owning
pub mod Passing
pub mod Requesting
pub mod Settling
pub mod Turning
pub mod Ending
pub mod Entering
