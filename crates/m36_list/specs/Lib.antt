pub mod Assembled
pub mod Counts
pub mod Disassembly
pub mod Listing
pub mod Modifiers
pub mod Print
pub mod Tags
