-- Laws, which rest on the definitions of specs/
pub mod FeederFinds
pub mod FeederLaws
pub mod FeederPoints
pub mod FileBack
pub mod FileRead
pub mod LayoutFault
pub mod LayoutLine
pub mod LineOfRow
pub mod LineReader
pub mod NodeNames
pub mod ProperNames
pub mod RowFacts
pub mod Standing
pub mod TableFaults
pub mod TableRows
pub mod TapLaws
