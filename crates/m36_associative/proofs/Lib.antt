pub mod Watching
pub mod Keeping
pub mod Written
pub mod Found
pub mod Faces
