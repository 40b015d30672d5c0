pub mod Ascii
pub mod Numbers
pub mod LineCuts
pub mod CutLine
pub mod WordLemmas
pub mod Written
pub mod Joined
