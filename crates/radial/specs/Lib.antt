pub mod Radial
pub mod Reach
pub mod Counting
pub mod First
