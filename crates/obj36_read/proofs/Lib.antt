pub mod ReadingLoops
pub mod FaultLoops
pub mod SpelledNames
pub mod RepeatLoops
