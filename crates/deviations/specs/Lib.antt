pub mod Deviations
pub mod Marked
