-- Definitions
pub mod TapTable
pub mod OwnRows
-- Laws
pub mod AnswerLaws
pub mod TapRowLaws
pub mod TapTableLaws
pub mod Regulators
pub mod OwnLaws
pub mod FeederTaps
