pub mod AdditionLaws
pub mod AssignmentLaws
pub mod ChangeLaws
pub mod ClaimLaws
pub mod ConstructionLaws
pub mod DependenceLaws
pub mod DragLaws
pub mod DropLaws
pub mod DualLaws
pub mod EditLaws
mod Examples
pub mod LiveElements
pub mod NeedLaws
pub mod NeededParts
pub mod NumberLaws
mod PartExamples
pub mod PartLaws
pub mod PlainHeightLaws
pub mod PlainStatementLaws
pub mod PosingLaws
pub mod RebuildLaws
mod SampleTable
pub mod SketchLaws
pub mod SoundLaws
pub mod StatementLaws
pub mod TableLaws
pub mod ValueLaws
