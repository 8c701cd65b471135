pub mod ReadingLaws
pub mod AnswerLaws
