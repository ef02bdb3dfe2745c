pub mod Ascii
pub mod ByThrees
pub mod FieldsPut
pub mod Lines
pub mod Numbers
