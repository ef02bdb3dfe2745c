pub mod Rooms
pub mod SumLaws
pub mod SymbolLaws
pub mod ValueLaws
