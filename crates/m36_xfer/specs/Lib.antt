pub mod ControlInstructions
