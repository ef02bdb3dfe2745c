pub mod Draws
pub mod Lines
pub mod Sources
pub mod BootText
pub mod Folder
