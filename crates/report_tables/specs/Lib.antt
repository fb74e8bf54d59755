-- Definitions
pub mod TablesRead
-- Laws
pub mod RowLaws
pub mod TableLaws
pub mod TotalsLaws
