-- Definitions
pub mod Words
-- Laws
pub mod Values
pub mod ReadingValues
pub mod StudyValues
pub mod CheckValues
pub mod Apart
