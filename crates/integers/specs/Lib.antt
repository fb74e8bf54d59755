-- Definitions
pub mod Rounding
pub mod Root
pub mod Pairs
pub mod Lists
-- Laws
pub mod Bools
pub mod Whole
pub mod Ring
pub mod RootLaws
pub mod RootSteps
pub mod PairLaws
pub mod ListLaws
pub mod Machine
pub mod Equal
