pub mod Fields
pub mod Descriptors
pub mod Widths
pub mod RoundTrips
pub mod Violations
pub mod Access
