pub mod Answers
pub mod AnswerLaws
pub mod Only
