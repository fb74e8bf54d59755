-- Definitions
pub mod Setting
-- Laws
pub mod TapRows
