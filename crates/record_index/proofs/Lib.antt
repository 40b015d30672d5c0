pub mod Coming
pub mod Heap
pub mod Members
pub mod Order
pub mod Rising
