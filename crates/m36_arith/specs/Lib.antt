pub mod Division
pub mod PairNumber
pub mod ShiftResult
pub mod Signs
