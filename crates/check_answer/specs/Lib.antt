-- Definitions
pub mod CheckAnswer
-- Laws
pub mod CheckAnswerLaws
