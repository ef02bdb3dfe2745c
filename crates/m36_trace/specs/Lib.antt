pub mod EndLine
pub mod Kept
pub mod Spaced
pub mod TraceLine
