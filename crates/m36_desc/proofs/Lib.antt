pub mod RoundTrips
pub mod WidthLaws
