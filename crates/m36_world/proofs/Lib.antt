pub mod Following
pub mod Puts
