pub mod Changes
pub mod DataInstructions
pub mod Registers
pub mod Results
