pub mod Words
pub mod Commands
pub mod Programs
pub mod TopCall
pub mod CommandLaws
pub mod StatusLine
