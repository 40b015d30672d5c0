pub mod Found
pub mod Fronts
pub mod Printed
pub mod Telling
