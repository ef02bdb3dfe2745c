pub mod Direct
pub mod Ends
pub mod GoingOn
pub mod Groups
pub mod Hurrying
pub mod Operations
pub mod Plain
pub mod Reaching
mod Showing
pub mod TallyWords
pub mod Writing
