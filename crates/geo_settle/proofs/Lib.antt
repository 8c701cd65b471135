pub mod AxisValues
pub mod FailLaws
pub mod PartLaws
pub mod Places
pub mod SweepLaws
