-- Definitions
pub mod Seen
-- Laws
pub mod MovedTaps
