-- Read first `ProcsFile`, the grammar of the text, and `ScheduleText`, what a run writes. The other
-- modules say what the results of the calls imply.
pub mod ProcsFields
pub mod ProcsFile
pub mod ProcsResult
pub mod IsProcs
pub mod ReaderSays
pub mod ReadingSays
pub mod EventResult
pub mod ScheduleText
pub mod RunResult
