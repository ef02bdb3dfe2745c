mod Appended
mod Blocks
mod Causes
pub mod Completes
mod Consumed
mod FilesGiven
mod FilesNamed
pub mod Fronts
pub mod Gathered
pub mod Grown
pub mod LinesTaken
mod MemoryBlocks
mod Names
mod Replaced
pub mod Risen
mod Signalled
mod Taken
mod Takes
mod WriteAnswers
