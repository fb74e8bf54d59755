-- Definitions
pub mod Read
-- Laws
pub mod LastLaws
pub mod ReportLaws
