-- Definitions
pub mod Text
pub mod Lines
pub mod Promises
-- Laws
pub mod TextLaws
pub mod NumberText
pub mod NameText
pub mod LineLaws
pub mod LineText
pub mod RowText
pub mod RowRefused
pub mod Stores
