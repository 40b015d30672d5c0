pub mod Plans
pub mod Fates
pub mod Link
pub mod Ring
pub mod Line
