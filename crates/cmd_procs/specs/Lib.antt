pub mod JointText
pub mod Scheduled
pub mod ProcsProgram
pub mod ProcsEnds
pub mod Needs
pub mod OneText
