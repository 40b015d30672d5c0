pub mod Owing
pub mod Unanswered
pub mod Laws
