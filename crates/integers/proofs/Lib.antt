-- Laws, which rest on the definitions of specs/
pub mod DigitsLaws
pub mod Near
pub mod PairLaws
pub mod RootSteps
pub mod RoundingLaws
