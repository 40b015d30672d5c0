pub mod Answers
pub mod Open
pub mod Waiting
pub mod Taken
pub mod Laws
