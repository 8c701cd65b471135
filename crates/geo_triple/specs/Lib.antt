pub mod Triple
pub mod Height
pub mod Sums
pub mod Primitive
pub mod WidthLaws
pub mod Zero
