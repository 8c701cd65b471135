pub mod Fails
pub mod Findings
pub mod Places
pub mod Rounds
