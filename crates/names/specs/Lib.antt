pub mod Rest
pub mod Slots
pub mod Numbering
pub mod Numbered
pub mod NumberedLaws
