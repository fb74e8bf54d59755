-- Definitions
pub mod Rounds
-- Laws
pub mod Moving
pub mod Turns
