pub mod Fields
pub mod Layout
pub mod Words
pub mod Exports
