-- Laws
pub mod CheckStages
pub mod InHand
