mod CandidateLaws
mod ConjectureLaws
mod Filters
pub mod ListedLaws
mod LowTriples
mod NoticedLaws
mod OrderLaws
mod SampleLaws
