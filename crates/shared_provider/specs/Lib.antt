pub mod History
pub mod Book
pub mod Asked
pub mod Answers
pub mod Sound
pub mod Holds
pub mod Calls
