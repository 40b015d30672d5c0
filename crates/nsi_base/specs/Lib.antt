pub mod Range
pub mod Bytes
pub mod Flows
pub mod Lines
pub mod Digits
pub mod Words
pub mod Options
