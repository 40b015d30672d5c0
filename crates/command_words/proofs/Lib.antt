pub mod Shapes
pub mod Lexing
pub mod Walking
pub mod Reading
pub mod FewEvents
mod Rows
