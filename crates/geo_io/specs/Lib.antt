pub mod Faults
pub mod Pieces
pub mod Lines
pub mod Taking
pub mod Memory
pub mod OverStd
