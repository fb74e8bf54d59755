-- Definitions
pub mod Pair
-- Laws
pub mod SolutionSizes
pub mod PairHolds
