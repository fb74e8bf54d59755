pub mod Columns
pub mod FirstRow
