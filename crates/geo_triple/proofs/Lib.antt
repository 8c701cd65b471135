pub mod Triples
pub mod Sums
pub mod Sizes
pub mod Readings
pub mod Divisors
pub mod Primitives
pub mod ZeroLaws
