pub mod Study
pub mod Stages
