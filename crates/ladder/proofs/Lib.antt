-- Laws, which rest on the definitions of specs/
pub mod StageLaws
pub mod StudyLaws
pub mod StudyPoints
