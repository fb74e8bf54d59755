pub mod Passes
pub mod Arrays
pub mod Nodes
pub mod Same
pub mod Along
pub mod Lower
