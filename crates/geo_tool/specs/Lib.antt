pub mod Tools
pub mod Uses
pub mod Asked
pub mod Expansion
