-- Definitions
pub mod Layout
pub mod File
pub mod Feeder
pub mod Network
pub mod Faults
-- Laws
pub mod FirstLines
pub mod RowLine
pub mod NetworkLaws
pub mod RowLaws
pub mod Reach
pub mod Stages
pub mod Pointing
pub mod Phased
