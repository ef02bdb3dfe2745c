pub mod Subjects
pub mod TopCalls
pub mod Programs
pub mod CommandLaws
pub mod WordLaws
