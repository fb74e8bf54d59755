-- Definitions
pub mod StudyAnswer
-- Laws
pub mod StudyAnswerLaws
