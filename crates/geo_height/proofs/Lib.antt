pub mod SumLaws
pub mod HeightLaws
pub mod CappedLaws
