pub mod Given
pub mod Components
pub mod Kept
pub mod Links
pub mod Bound
pub mod Meaning
