pub mod Phased
pub mod SignRead
