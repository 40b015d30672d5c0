pub mod Due
pub mod Heap
