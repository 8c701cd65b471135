pub mod Integers
pub mod AbsoluteValues
pub mod Ring
pub mod Identities
