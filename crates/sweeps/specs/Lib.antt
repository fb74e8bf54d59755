pub mod Sweeps
pub mod SweepsLaws
pub mod ReadKnown
pub mod Retapped
