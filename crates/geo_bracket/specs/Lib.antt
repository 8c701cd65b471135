pub mod Terms
pub mod Grammar
pub mod Expressions
pub mod Resolving
pub mod Questions
pub mod Posing
pub mod Verdicts
