pub mod Watched
pub mod Right
