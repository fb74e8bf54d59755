pub mod Gather
pub mod Lift
pub mod Losing
