pub mod Dates
pub mod Spelling
pub mod Again
pub mod Printed
mod Rows
