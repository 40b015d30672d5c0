pub mod Raced
pub mod Callers
pub mod Alone
pub mod Serving
