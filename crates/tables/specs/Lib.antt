pub mod Read
pub mod TableLaws
pub mod LineLaws
pub mod LayoutLaws
