pub mod CoefficientLaws
pub mod ProductLaws
pub mod TableLaws
pub mod TriangleLaws
pub mod GridLaws
mod ExampleUses
mod Samples
