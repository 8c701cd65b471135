pub mod Entries
pub mod Pictures
pub mod Sights
pub mod Walls
pub mod Following
