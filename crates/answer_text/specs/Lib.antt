-- Definitions
pub mod AnswerText

-- Laws
