pub mod Cuts
pub mod Found
pub mod HeadLaws
pub mod Negatives
pub mod RowLaws
pub mod Slices
pub mod Widths
