pub mod Tables
pub mod TableLaws
pub mod Left
pub mod Writing
pub mod ReportIs
