pub mod Joints
pub mod Begun
pub mod Behind
pub mod Shelves
pub mod Worlds
pub mod Journals
pub mod Held
