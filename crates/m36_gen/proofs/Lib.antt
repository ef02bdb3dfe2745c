pub mod OneMore
pub mod Parts
pub mod DataRoom
