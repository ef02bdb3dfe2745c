pub mod DebugSteps
pub mod DebugCalls
pub mod FolderText
pub mod DebugText
