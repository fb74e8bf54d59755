pub mod Draws
pub mod SumLaws
