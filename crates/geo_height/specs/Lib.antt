pub mod Capped
pub mod Bounds
