pub mod Candidates
pub mod Conjectures
pub mod Guesses
pub mod Noticing
pub mod Order
pub mod Samples
