pub mod Segments
pub mod Start
pub mod ImageLaw
pub mod Refusals
pub mod Image
