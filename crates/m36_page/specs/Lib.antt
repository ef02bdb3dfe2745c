pub mod Fields
pub mod Residence
pub mod Copied
pub mod Changes
pub mod Choice
pub mod Moved
pub mod Given
