pub mod JointTexts
pub mod ProcsSteps
pub mod ScheduleLoop
pub mod TextLaws
pub mod Registers
pub mod ProcsReads
pub mod ProcsEnded
