pub mod Formed
pub mod Points
