pub mod Account
pub mod Sums
pub mod Powers
pub mod RowBounds
pub mod Clause
