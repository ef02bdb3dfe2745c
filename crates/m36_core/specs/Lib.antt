pub mod Block
pub mod Frames
pub mod Lending
pub mod Lends
pub mod Ownership
pub mod Places
