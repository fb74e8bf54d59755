-- Definitions
pub mod Equations
pub mod Taps
-- Laws
pub mod ThreeLaws
pub mod Weight
pub mod Sizes
pub mod SumSizes
pub mod Limits
pub mod Fit
pub mod Downward
pub mod Upward
pub mod Meets
pub mod Absent
pub mod Matrices
