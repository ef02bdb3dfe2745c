pub mod CoreWords
pub mod Headers
pub mod Images
pub mod LinesInTurn
pub mod Placing
pub mod SeveralLaws
