pub mod BitLaws
pub mod FieldLaws
pub mod ZerosAfter
pub mod Lists
