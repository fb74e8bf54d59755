-- Definitions
pub mod Report
-- Laws
pub mod LinesBack
