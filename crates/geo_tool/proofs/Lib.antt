pub mod ChangeLemmas
pub mod CutLemmas
pub mod ExpansionLaws
pub mod ShortLemmas
