pub mod Hurried
pub mod KeptLaws
