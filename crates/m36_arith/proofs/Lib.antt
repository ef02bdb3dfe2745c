pub mod BitByBit
pub mod ShiftRules
pub mod SignedOrder
pub mod SignRules
pub mod Refusals
