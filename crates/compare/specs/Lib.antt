pub mod Differences
pub mod Compare
pub mod Scans
pub mod TapRows
pub mod Tied
