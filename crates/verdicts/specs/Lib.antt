-- Definitions
pub mod Check
pub mod ReportFaults
-- Laws
pub mod OffAbove
pub mod Unfiled
pub mod CheckChain
