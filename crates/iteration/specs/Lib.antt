pub mod Ladder
pub mod Runs
