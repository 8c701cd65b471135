pub mod Coefficients
pub mod Tables
pub mod Grids
pub mod Triangles
pub mod Examples
pub mod ExampleLaws
