pub mod Bits
pub mod Field
pub mod Pairs
pub mod Signed
