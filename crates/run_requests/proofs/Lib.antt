pub mod Taken
pub mod Paying
pub mod Fees
pub mod Exist
pub mod Few
pub mod Scripted
