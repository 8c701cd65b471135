pub mod Entries
pub mod Degrees
pub mod Grids
pub mod Instances
pub mod Positions
pub mod Faults
pub mod Truth
