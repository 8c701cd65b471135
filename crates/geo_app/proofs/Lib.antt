mod Alone
mod BatchCourses
mod BatchCuts
mod BatchSheets
mod BoxedViews
mod Carried
mod CertificateCourses
mod CertifiedLaws
mod Endings
mod LongJobs
mod LongLines
mod Numerals
mod PlaceTexts
mod Progress
mod ScriptCourses
pub mod Tallies
mod Writing
