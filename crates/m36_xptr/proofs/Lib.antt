pub mod Eight
pub mod Puts
