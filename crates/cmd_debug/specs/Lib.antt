pub mod Held
pub mod DebugProgram
pub mod Needs
pub mod Sessions
