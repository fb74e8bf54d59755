pub mod Agreeing
pub mod Told
