pub mod Taking
pub mod Same
pub mod Keeping
pub mod Growing
pub mod Passing
pub mod Noting
