pub mod DegreeLaws
pub mod PolynomialLaws
pub mod PairLaws
pub mod GridLaws
pub mod BlockLaws
pub mod QuestionLaws
pub mod ZeroLaws
pub mod AxisLaws
pub mod RowLaws
pub mod AgreementLaws
pub mod HoldingLaws
pub mod OverLaws
pub mod VerdictLaws
pub mod VerdictFunction
pub mod StatementBlocks
pub mod FormLaws
mod Samples
