pub mod Rights
pub mod Gates
pub mod MarkBits
pub mod BootedNumbers
pub mod Findings
pub mod References
pub mod PageServices
