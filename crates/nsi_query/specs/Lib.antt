pub mod Cut
pub mod Summary
pub mod Counted
pub mod Nested
pub mod Answers
pub mod Laws
