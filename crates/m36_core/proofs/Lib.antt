pub mod Crosses
pub mod FrameWords
pub mod Slotted
pub mod Sharing
pub mod Spliced
