pub mod DualLedgers
pub mod EntryLists
pub mod Lookups
pub mod RisingAxes
pub mod SameBlocks
pub mod SameQuestions
pub mod KeptLaws
