pub mod OwnSections
pub mod Inside
pub mod Packed
pub mod SourceLaws
pub mod SpanLines
pub mod SpanParts
pub mod TextsBack
