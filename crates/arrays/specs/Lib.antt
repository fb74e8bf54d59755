-- Definitions
pub mod Arrays
-- Laws
pub mod ArrayLaws
