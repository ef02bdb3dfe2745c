pub mod Answers
pub mod Happened
pub mod Follow
pub mod Logs
pub mod CallEvents
pub mod Seen
