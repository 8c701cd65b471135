pub mod ReadLemmas
pub mod SignLemmas
pub mod ResolveLemmas
pub mod SumLaws
pub mod AxesInOrder
pub mod BlocksInOrder
pub mod ExpressionLaws
pub mod VerdictLaws
pub mod FactorLaws
pub mod NamedLaws
pub mod HeightLaws
pub mod ThreeLaws
pub mod FoundAxes
mod GridLaws
pub mod AskLaws
pub mod ValueLaws
