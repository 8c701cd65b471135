pub mod Words
pub mod Lists
pub mod Shapes
pub mod Products
pub mod Derivations
