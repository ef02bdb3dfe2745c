pub mod Fields
pub mod Users
pub mod AccessLine
pub mod AccessLists
pub mod Policy
pub mod Granted
pub mod AccessText
