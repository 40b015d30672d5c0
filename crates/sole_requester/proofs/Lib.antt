pub mod Moving
pub mod Receiving
pub mod Working
pub mod Asking
pub mod Counted
